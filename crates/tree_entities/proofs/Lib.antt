pub mod Operating
pub mod Overs
pub mod Signatures
