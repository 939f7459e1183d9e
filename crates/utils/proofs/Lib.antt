pub mod VbeLaws
pub mod SignedLaws
pub mod DegreeLaws
pub mod CoordinateLaws
pub mod NumberLaws
