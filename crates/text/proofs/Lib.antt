-- Laws of texts, for the proofs of this crate and of those that print.
pub mod Texts
