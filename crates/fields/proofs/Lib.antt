pub mod FieldLaws
pub mod StreamLaws
