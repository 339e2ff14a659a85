pub mod Refused
pub mod Checked
