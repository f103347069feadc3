pub mod Six
pub mod Stored
pub mod Agreement
