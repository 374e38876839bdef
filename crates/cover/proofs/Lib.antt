-- Lemmas about owners and classes.
pub mod Covering
