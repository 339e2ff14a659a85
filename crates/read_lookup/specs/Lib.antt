pub mod Axes
pub mod Lookup
