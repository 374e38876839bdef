-- The theorems on the list of all small graphs, and the lemmas that they and `listing` use.
pub mod Order
pub mod Runs
pub mod Shapes
pub mod Stated
pub mod Bytes
pub mod Numbers
pub mod Within
pub mod Places
pub mod Lengths
pub mod Theorems
pub mod Steps
pub mod Amounts
pub mod Calls
pub mod Following
pub mod Few
pub mod Meaning
