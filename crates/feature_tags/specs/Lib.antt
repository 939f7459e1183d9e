pub mod FeatureTags
