-- What reading the records of a call answers.
pub mod Pair
