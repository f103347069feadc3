pub mod Rounds
pub mod OneTake
