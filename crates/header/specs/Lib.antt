pub mod HeaderView
pub mod Made
