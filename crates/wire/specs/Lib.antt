pub mod Wire
pub mod Verdicts
pub mod Elevation
pub mod Spread
pub mod Codecs
