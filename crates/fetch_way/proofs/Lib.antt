pub mod WayLaws
pub mod DeliverLaws
