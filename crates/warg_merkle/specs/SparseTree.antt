pub mod Nodes
pub mod Compressed
pub mod Stored
pub mod SparseTree
