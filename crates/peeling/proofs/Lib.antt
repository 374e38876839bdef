-- These files have the laws of the range test, of counting links, and of taking sources away.
pub mod Range
pub mod Counting
pub mod Passes
