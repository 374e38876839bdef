-- What the listing's call replies, and what its inner functions promise.
pub mod Call
pub mod Numbers
