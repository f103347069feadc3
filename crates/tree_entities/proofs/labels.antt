pub mod Arities
pub mod LabelLists
