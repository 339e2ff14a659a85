-- Trials and laws of the definitions, for the proofs of this crate.
pub mod Examples
mod OffsetLaws
mod RowLaws
mod Ways
mod SweepsHold
