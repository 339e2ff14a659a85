pub mod Header
pub mod Reasons
pub mod Whole
