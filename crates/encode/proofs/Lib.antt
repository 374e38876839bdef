-- These files have the laws of writing.
pub mod Links
pub mod Outcomes
pub mod MarkedRows
pub mod RowPlaces
pub mod WrittenForm
