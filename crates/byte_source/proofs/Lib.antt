pub mod ReadLaws
pub mod CutOffLaws
pub mod ByteLaws
