-- These files define typed feature graphs and the operations on them, over labels of any type.
pub mod Label
pub mod Graph
pub mod Map
pub mod Bounds
pub mod Rows
pub mod Number
pub mod Large
pub mod Generalize
pub mod Order
pub mod Unify
pub mod Difference
pub mod Relations
pub mod Reasons
pub mod LeastPath
pub mod OfRows
