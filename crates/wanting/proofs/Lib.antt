-- Laws of the wanted labels.
pub mod Asked
pub mod Wanting
