pub mod Places
pub mod Rows
pub mod Numbers
pub mod Meanings
