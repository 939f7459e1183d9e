pub mod CallLaws
pub mod SelectLaws
pub mod SkipLaws
