pub mod Frame
pub mod Stores
pub mod Tops
pub mod Places
pub mod Exits
