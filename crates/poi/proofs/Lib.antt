pub mod PoiLaws
pub mod StreamLaws
