-- Laws of parsing, of replies and of the line.
pub mod Parsing
pub mod Bounds
pub mod Replies
pub mod Theorems
