pub mod Figures
pub mod Codecs
