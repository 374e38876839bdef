-- These files define the type table, its words, and the labels of a table.
pub mod Table
pub mod Words
pub mod Label
pub mod Labels
