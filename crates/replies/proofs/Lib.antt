-- Laws of replies, which other crates use.
pub mod Numbers
pub mod Told
