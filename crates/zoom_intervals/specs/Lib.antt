pub mod Intervals
pub mod Rows
