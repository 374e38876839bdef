-- Laws of the state of a store.
pub mod SlotLaws
pub mod Written
pub mod Restoring
pub mod Loops
pub mod Unpacked
pub mod Lengths
pub mod Packs
