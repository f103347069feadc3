pub mod OperatorReads
pub mod Standard
pub mod Counts
