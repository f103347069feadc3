pub mod Each
pub mod Part
pub mod Reads
