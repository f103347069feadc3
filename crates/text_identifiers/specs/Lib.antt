pub mod Rounds
pub mod Identifiers
