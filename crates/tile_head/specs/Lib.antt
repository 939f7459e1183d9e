pub mod TileHead
