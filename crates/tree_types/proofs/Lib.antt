pub mod Nominals
pub mod Rounding
pub mod Collecting
pub mod ListNodes
pub mod Archetypes
