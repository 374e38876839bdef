-- Lemmas about reading orders and about the two orders of links.
pub mod ReadingOrder
pub mod LinkOrders
