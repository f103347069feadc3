pub mod Beginnings
pub mod Steps
pub mod Names
pub mod Whole
