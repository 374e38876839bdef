-- Laws of the difference: the code's steps give the difference that the definitions describe.
pub mod Labels
pub mod Result
pub mod Over
pub mod Along
pub mod Answering
