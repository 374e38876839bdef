-- What the calls of a gathering answer and leave in the state and the output, and computed examples.
pub mod Gathering
pub mod Parts
pub mod Joined
pub mod Examples
