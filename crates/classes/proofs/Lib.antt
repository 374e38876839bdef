-- Laws of the forest, of merging rows and of joining classes.
pub mod Roots
pub mod Merging
pub mod Sums
pub mod Joining
