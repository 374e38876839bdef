-- What holds in the parts of a combination.
pub mod Clash
pub mod Lowered
pub mod Rows
