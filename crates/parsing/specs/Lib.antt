pub mod Parse
pub mod Good
