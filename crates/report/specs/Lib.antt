pub mod Words
pub mod Texts
pub mod Records
pub mod Lines
