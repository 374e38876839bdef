-- Laws of the order's search: following the links of one node, and the search over all nodes.
pub mod Following
pub mod Searching
