-- The theorems on the calls: the three demands (`Demands`) and the change requests (`Requests`), with the proofs that they cite.
pub mod Results
pub mod Demanded
pub mod Demands
pub mod Broader
pub mod Unranged
pub mod Requests
pub mod Replies
pub mod MoreStatements
