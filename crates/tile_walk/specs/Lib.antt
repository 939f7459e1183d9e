pub mod TileWalk
