-- The state of a store: its bytes, the way to it, and the programs that it holds.
pub mod State
pub mod Slots
pub mod Promise
