pub mod TileLayout
