pub mod Streams
pub mod Codecs
