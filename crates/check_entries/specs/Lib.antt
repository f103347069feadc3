pub mod Lies
pub mod EntriesTaken
pub mod Means
pub mod Stores
