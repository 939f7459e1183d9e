pub mod NextLaws
pub mod AcceptLaws
pub mod OpenLaws
