pub mod Copies
pub mod LeafNodes
