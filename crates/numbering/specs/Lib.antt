-- This file says what renumbering a graph asks and promises.
pub mod Copies
