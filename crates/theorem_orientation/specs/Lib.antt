pub mod Meaning
pub mod ReadBack
