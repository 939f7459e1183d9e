pub mod OpeningLaws
pub mod OpenedLaws
pub mod ListingLaws
pub mod ReplyLaws
