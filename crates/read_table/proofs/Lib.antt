-- Laws on plain lists and on the definitions, for the proofs of this crate.
pub mod Packed
pub mod Storing
pub mod Lining
pub mod Filling
pub mod Matching
pub mod Shifting
