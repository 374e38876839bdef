-- The definitions that only the theorems on the demands and on the change requests use.
pub mod Demand
pub mod Before
pub mod Unranged
pub mod Appropriate
pub mod Explained
pub mod Lent
pub mod Wanted
pub mod Due
pub mod More
