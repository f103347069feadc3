pub mod Turns
pub mod Numbers
