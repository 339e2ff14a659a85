pub mod Stored
pub mod Arrays
