-- What each operation on records replies over an accepted table, and what it leaves in the output.
pub mod Rewriting
pub mod Operation
pub mod Generalizing
pub mod Unifying
pub mod Differing
