-- What the calls of a store reply and leave.
pub mod Calls
pub mod Opening
pub mod Examples
