pub mod TileView
pub mod MapsforgeMap
pub mod Called
pub mod Texts
pub mod BookSays
pub mod ZoomingIn
pub mod ListedTags
