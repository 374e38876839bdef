-- These files define walks over a graph in words, and what the walks find.
pub mod Walks
pub mod Visiting
pub mod Colouring
