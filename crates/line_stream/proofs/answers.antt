pub mod Sizes
pub mod Laws
pub mod Whole
