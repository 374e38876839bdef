-- These files define how a record's bytes are decoded, and what the functions promise that do it.
pub mod Decode
pub mod Word
pub mod Reader
pub mod Storing
pub mod Answers
