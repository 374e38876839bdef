-- Joins of labels, the common part of two graphs, and what building it leaves.
pub mod Pairs
pub mod Product
pub mod Found
