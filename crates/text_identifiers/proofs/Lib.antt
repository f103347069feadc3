pub mod Alike
pub mod Rounds
pub mod Steps
pub mod OneLiteral
pub mod Identifying
