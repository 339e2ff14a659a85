pub mod Parts
pub mod Samples
