-- The groups of links of a difference: the marks of the links of s.
pub mod Marks
pub mod LinkMarks
