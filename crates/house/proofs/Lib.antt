-- These files have the laws by which the contracts are proved, and the theorems about the house types.
pub mod Entries
pub mod Filling
pub mod Grades
pub mod Order
pub mod Theorems
