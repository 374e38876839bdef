-- What going the way of programs promises.
pub mod Promise
