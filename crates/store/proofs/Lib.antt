-- Proofs about the calls of a store.
pub mod Settling
pub mod Opening
pub mod Examples
