pub mod Texts
pub mod Naming
