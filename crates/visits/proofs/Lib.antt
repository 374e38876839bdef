-- These files have the laws of the walks over a graph in words.
pub mod Visiting
pub mod GraphVisit
pub mod Colouring
