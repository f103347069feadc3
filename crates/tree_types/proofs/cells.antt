pub mod Cells
pub mod Gatherings
