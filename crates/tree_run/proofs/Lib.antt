pub mod MoreWords
pub mod Steps
pub mod Names
pub mod Whole
