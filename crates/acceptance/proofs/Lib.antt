-- These files have the lemmas that the proofs of the tests share, and the theorem about the answer.
pub mod Covering
pub mod Spanning
pub mod Acceptance
