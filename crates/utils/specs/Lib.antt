pub mod Vbe
pub mod Answers
pub mod Degree
