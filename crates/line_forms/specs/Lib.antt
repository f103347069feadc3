pub mod Lines
pub mod Appends
pub mod LineEnds
