pub mod Figures
pub mod PlainMeans
