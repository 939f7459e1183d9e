pub mod Tag
pub mod Value
