-- These files define what writing a record answers and leaves, with marks beside it or without.
pub mod Encode
pub mod Marks
