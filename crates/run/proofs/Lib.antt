pub mod Chains
pub mod OneOperator
pub mod RunLoop
pub mod Readers
