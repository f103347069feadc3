pub mod Leaves
pub mod Parts
