pub mod Names
pub mod Numbers
pub mod Accepted
pub mod Data
pub mod Written
pub mod ReadBack
