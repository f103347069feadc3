pub mod Abouts
pub mod Qualifiers
