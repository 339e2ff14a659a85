-- Laws on plain lists and on the definitions, for the proofs of this crate.
pub mod AxisLaws
pub mod Finding
pub mod Values
