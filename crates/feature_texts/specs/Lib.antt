pub mod FeatureTexts
pub mod Known
