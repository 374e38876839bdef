-- The wanted labels as the code holds them, and what the functions that find them require.
pub mod Wanted
pub mod Asked
