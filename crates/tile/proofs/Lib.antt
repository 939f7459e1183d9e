pub mod RowLaws
pub mod PlaceLaws
pub mod TileLaws
pub mod CollectLaws
