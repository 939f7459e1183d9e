pub mod Fetch
pub mod Direct
