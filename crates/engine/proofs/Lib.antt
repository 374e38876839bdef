-- Laws of the operations over an accepted table.
pub mod Tables
pub mod Written
pub mod CommonParts
pub mod Combinations
pub mod Differences
