-- These files have the lemmas that several proofs share.
pub mod Columns
pub mod PrimeLaws
pub mod Distributive
pub mod Held
pub mod Types
pub mod Opening
