-- Proofs about the programs that a buffer holds.
pub mod Room
pub mod Programs
pub mod Among
