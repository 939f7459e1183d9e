pub mod BigEndian
pub mod Answers
