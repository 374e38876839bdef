-- The listed records, their order, and the seven numbers that state a listed record.
pub mod Listing
pub mod Numbers
