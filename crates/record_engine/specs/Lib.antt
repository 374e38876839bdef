-- What the exported functions answer, as codes.
pub mod Code
pub mod Coded
pub mod CodedRows
pub mod House
