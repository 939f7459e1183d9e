pub mod TableLaws
pub mod KindLaws
