pub mod Tables
pub mod Accepted
pub mod Listed
