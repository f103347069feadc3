pub mod Spent
pub mod Beyond
pub mod Kinds
pub mod Wanted
pub mod RunEnds
