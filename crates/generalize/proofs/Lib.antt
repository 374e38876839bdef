-- Laws of building the common part of two graphs.
pub mod Sides
pub mod Building
pub mod Result
