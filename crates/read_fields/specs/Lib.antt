pub mod States
pub mod Shares
