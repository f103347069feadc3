pub mod Fixed
pub mod Rows
