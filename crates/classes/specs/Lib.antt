-- The definitions for merging nodes into classes.
pub mod Forest
pub mod Merge
pub mod Classes
