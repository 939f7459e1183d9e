pub mod Fields
pub mod Index
