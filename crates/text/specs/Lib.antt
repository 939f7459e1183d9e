pub mod Utf8
pub mod Hash
pub mod Writing
pub mod Sequences
