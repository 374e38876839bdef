-- These files have the laws of rows and of the loops over them.
pub mod Known
pub mod Placed
pub mod FilledRows
pub mod LentRows
pub mod Tables
pub mod Tests
pub mod AnyOrder
pub mod RoundTrip
pub mod LentOnce
pub mod Sorted
