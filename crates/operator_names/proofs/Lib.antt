pub mod FixedNames
pub mod Rows
