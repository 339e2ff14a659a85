pub mod Refused
pub mod Written
pub mod Headers
pub mod Carried
pub mod Callers
