pub mod Rules
pub mod Codecs
