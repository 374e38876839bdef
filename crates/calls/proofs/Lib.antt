-- Laws of the calls.
pub mod Tables
pub mod Listed
pub mod Beside
pub mod Differences
