-- These files show what the written form of a graph has and tells.
pub mod Bisimilar
pub mod Invariant
pub mod Visited
pub mod Canonical
pub mod Large
pub mod Rules
pub mod LeastPath
