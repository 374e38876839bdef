-- These files define how words hold a decoded graph, and how such words are built.
pub mod Layout
pub mod Builder
