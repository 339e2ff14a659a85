pub mod Bits
pub mod Refuse
