-- These files define the bytes of a written record, and what the functions promise that encode one.
pub mod Encode
pub mod NumberedRows
