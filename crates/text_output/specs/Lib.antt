pub mod Sink
pub mod Appends
pub mod Copied
pub mod LowBytes
