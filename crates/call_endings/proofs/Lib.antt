pub mod Ends
pub mod Entering
pub mod Runs
pub mod Users
