pub mod Parts
pub mod Noting
pub mod Keeping
pub mod Loops
pub mod Later
pub mod Counting
