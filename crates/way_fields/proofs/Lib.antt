pub mod WayFieldLaws
pub mod StreamLaws
