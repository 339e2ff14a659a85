pub mod Shares
pub mod Patterns
pub mod Numbers
pub mod Names
pub mod Hold
pub mod Headers
