pub mod Index
pub mod Codecs
