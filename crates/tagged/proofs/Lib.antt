pub mod LayerLaws
pub mod TaggedLaws
