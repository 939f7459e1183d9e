pub mod Widen
pub mod CaseLaws
