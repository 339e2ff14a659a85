pub mod Codes
pub mod Strings
