pub mod TypeLists
pub mod Cells
