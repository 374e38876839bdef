-- Which nodes and links a difference keeps, and the rows of the difference.
pub mod Keeping
pub mod Thinning
