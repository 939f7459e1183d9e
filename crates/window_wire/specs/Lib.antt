pub mod Windows
pub mod Codecs
