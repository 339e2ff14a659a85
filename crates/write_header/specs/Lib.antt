pub mod Stored
pub mod Headers
