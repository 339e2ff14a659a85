-- Laws on the state and on judgements, for the proofs of this crate and of the reader.
pub mod States
pub mod Judging
pub mod Sharing
