pub mod WordCalls
pub mod WordBook
pub mod WordZooming
pub mod WordDriven
