-- These files have the laws of decoding.
pub mod Labels
pub mod Word
pub mod Reading
pub mod Decoded
pub mod Storing
