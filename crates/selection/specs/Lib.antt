pub mod Selected
pub mod Driven
pub mod Selects
pub mod TileDriven
