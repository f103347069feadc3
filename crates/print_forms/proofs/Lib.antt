pub mod ByKind
pub mod FormLaws
pub mod RowLaws
