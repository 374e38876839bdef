-- What the order answers, and what holds during the search for the answer.
pub mod Promise
pub mod Following
