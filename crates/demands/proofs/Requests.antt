-- The change requests: one file for each paper, one theorem for each sentence. The theorems are about the definitions that the calls are proved
-- equal to; these stand in specs/ of `calls`, `engine`, `orders`, `planning` and `listing`. Words that only the statements use stand in specs/
-- of this crate, and the proofs are cited. Papers 4 and 11 have crates of their own, `gathered` and `stored`. n and t are the table, out and out'
-- are the outputs lent; a, b, c and d are the records.
pub mod Paper01
pub mod Paper02
pub mod Paper03
pub mod Paper05
pub mod Paper06
pub mod Paper07
pub mod Paper08
pub mod Paper09
pub mod Paper10
pub mod Paper12
pub mod Paper13
pub mod Paper14
