-- What becomes of the programs that a buffer holds.
pub mod Contents
pub mod Promise
