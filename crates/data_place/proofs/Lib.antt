-- Laws on plain lists and on the definitions, for the proofs of this crate.
pub mod Skips
pub mod Headers
pub mod Located
pub mod Numbers
