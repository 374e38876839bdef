-- These files say which labels are in range, and what the functions promise that count links and take sources away.
pub mod Range
pub mod Counts
