pub mod Meaning
pub mod Turns
