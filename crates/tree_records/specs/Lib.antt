pub mod Lies
pub mod Made
pub mod Holds
pub mod NamesOf
pub mod Trees
