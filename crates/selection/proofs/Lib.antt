pub mod SelectsLaws
pub mod SelectedLaws
pub mod NextLaws
pub mod SkipLaws
pub mod DrivenLaws
pub mod DrivenZooming
pub mod TileLaws
