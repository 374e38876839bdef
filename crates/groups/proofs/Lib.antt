-- Lemmas about the marks of links, and about orders of links by their places.
pub mod Owning
pub mod Marking
pub mod Ordering
pub mod Leading
pub mod Apart
pub mod LinkMarks
