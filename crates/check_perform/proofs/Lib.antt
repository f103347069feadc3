pub mod Rows
pub mod RowTakes
pub mod Leaves
pub mod Recalls
pub mod Sounds
