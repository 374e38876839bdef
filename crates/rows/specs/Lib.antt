-- These files define what the rows that a caller lends state, and what the functions on them promise.
pub mod Rows
pub mod Placing
pub mod Filling
pub mod Lending
pub mod Reordered
pub mod Faults
