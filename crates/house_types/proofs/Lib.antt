-- The laws of the loop that prints.
pub mod Printing
