-- What the public calls reply, and what they leave in their outputs.
pub mod Calls
pub mod Appropriate
pub mod Explained
pub mod Beside
