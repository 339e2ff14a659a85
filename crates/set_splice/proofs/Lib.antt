pub mod Sets
pub mod Bridges
pub mod Held
