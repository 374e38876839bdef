-- The definitions that only the theorems on gatherings use.
pub mod Calls
pub mod Theorem
pub mod Due
