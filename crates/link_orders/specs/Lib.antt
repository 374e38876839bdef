-- The orders of links.
pub mod LinkOrders
