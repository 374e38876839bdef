-- What the combination answers.
pub mod Outcome
