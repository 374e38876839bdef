-- Laws of kept nodes, and of the rows with kept links.
pub mod Keeping
pub mod Thinning
