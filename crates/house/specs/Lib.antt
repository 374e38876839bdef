-- Definitions of the house types.
pub mod House
