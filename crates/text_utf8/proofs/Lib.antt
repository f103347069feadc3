pub mod Characters
pub mod Parts
