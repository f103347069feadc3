pub mod Taken
pub mod ListRounds
pub mod Takes
