-- These files define types as sets, tables of bounds, and what opening a table for meets or for joins leaves.
pub mod Primes
pub mod Sets
pub mod Cells
pub mod Opening
