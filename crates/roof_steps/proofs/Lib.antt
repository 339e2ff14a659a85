-- Laws of stamps and steps.
pub mod LawsHold
pub mod Stamps
