-- Laws of the queue of pairs, and of merging two rows of links.
pub mod Marking
pub mod Merging
