-- Laws of the calls of a gathering.
pub mod Spans
pub mod Told
pub mod Answers
pub mod Joins
pub mod Beginning
pub mod Examples
