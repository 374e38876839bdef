-- The proofs on the small set.
pub mod SmallSet
