-- The lemmas that the proofs of the listing's functions share, and the theorems on its call.
pub mod Ends
pub mod Copying
pub mod Continued
pub mod Checks
pub mod Theorems
