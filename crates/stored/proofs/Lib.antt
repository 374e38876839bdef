-- The theorems on stores: `Paper11` has one for each sentence of document 02, Paper 11, and the other files prove them.
pub mod Bytes
pub mod Records
pub mod Restoring
pub mod Way
pub mod Held
pub mod Stops
pub mod Calls
pub mod Puts
pub mod Exact
pub mod Numbers
pub mod Kept
pub mod Theorems
pub mod Longer
pub mod Paper11
