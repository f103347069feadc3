pub mod Operands
pub mod OperatorsRead
