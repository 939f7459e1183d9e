pub mod Opening
pub mod Listing
