-- These files have the laws of words that hold graphs.
pub mod Spans
pub mod Rows
pub mod NodeLinks
pub mod Places
pub mod Reaching
pub mod Builder
pub mod Sums
pub mod Order
pub mod Numbering
