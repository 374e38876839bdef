-- The cases of the small set.
pub mod Cases
