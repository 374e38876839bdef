-- The reasons for the links of a difference.
pub mod Explaining
