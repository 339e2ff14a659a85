pub mod Outside
pub mod Answers
