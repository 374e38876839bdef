-- These files define what it is to read a record.
pub mod Faults
pub mod Read
pub mod Reads
pub mod Unranged
pub mod Appropriate
pub mod Spelled
