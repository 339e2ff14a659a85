pub mod Printing
pub mod Names
