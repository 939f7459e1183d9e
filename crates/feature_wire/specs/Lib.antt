pub mod Features
pub mod Codecs
