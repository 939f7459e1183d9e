pub mod ArithmeticLaws
pub mod CutLaws
