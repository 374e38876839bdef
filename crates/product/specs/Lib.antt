-- The queue of pairs of nodes, and what adding the links of a pair promises.
pub mod Queue
