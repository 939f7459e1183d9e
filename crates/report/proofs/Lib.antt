pub mod WordLaws
pub mod TextLaws
pub mod LineLaws
