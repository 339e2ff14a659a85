pub mod Placing
pub mod Planning
pub mod Answers
