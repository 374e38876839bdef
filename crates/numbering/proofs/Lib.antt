-- This file has the laws of renumbering.
pub mod CopiedRows
