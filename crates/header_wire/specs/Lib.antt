pub mod Header
pub mod Codecs
