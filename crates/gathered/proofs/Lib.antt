-- The theorems on gatherings: `Paper04` has one for each sentence of document 02, Paper 4, and the other files prove them.
pub mod Mixture
pub mod Records
pub mod Holding
pub mod Least
pub mod Refusing
pub mod Theorems
pub mod Exact
pub mod Begun
pub mod Paper04
