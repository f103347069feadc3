pub mod Answers
pub mod Workspace
