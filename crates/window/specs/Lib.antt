pub mod Window
pub mod WindowSays
pub mod Biased
pub mod Answers
