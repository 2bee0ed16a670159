pub mod Unfold
pub mod Nodes
