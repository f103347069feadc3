pub mod Results
pub mod Gives
pub mod Trees
