pub mod LeafLaws
pub mod CycleLaws
pub mod RenderLaws
