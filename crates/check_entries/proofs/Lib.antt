pub mod Top
pub mod Steps
pub mod Composites
pub mod Written
