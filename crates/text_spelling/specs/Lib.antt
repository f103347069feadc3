pub mod Spelled
pub mod Segments
pub mod SegmentsRead
pub mod Measures
