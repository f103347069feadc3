pub mod Meant
pub mod Laws
pub mod Runs
pub mod Beginnings
