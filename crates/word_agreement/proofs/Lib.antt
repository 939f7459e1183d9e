pub mod ZoomBytes
pub mod Kept
pub mod Words
pub mod ZoomingWords
pub mod DrivenWords
