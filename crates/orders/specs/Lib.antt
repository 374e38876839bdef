-- What the order of two records replies over an accepted table.
pub mod Ordering
