-- The difference that a call writes, and what its steps require and promise.
pub mod Prepared
pub mod Promise
pub mod Comparable
pub mod Difference
pub mod Explained
pub mod Writing
