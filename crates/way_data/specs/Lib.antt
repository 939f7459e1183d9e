pub mod Reply
pub mod Writes
