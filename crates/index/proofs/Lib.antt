pub mod SignLaws
pub mod GridLaws
pub mod SubFileLaws
pub mod AnswerLaws
pub mod EntryLaws
