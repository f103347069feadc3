pub mod Recording
pub mod Witnessing
