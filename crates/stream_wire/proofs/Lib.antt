pub mod DeclineLaws
pub mod WireLaws
pub mod PastLaws
pub mod WordLaws
