pub mod QuestionLaws
pub mod RefusalLaws
