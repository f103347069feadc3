pub mod Table
pub mod Waits
