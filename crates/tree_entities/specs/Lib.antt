pub mod Entities
pub mod LabelsOf
