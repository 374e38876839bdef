-- The definitions that only the theorems on stores use.
pub mod Turns
pub mod Theorem
