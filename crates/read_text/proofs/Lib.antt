pub mod Places
pub mod Rows
pub mod NumberLaws
pub mod Said
pub mod Meanings
