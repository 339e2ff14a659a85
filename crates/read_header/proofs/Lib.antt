-- Laws on plain lists and on the definitions, for the proofs of this crate.
pub mod Turns
pub mod FirstLine
pub mod Calls
pub mod Accepted
