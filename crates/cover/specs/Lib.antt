-- Links of g over links of s, the owners of links, and the classes of nodes.
pub mod Cover
