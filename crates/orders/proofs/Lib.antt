-- The law of the order over an accepted table.
pub mod Orders
