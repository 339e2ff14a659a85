-- The call for a sweep, its laws, and trials of it.
pub mod Sweeps
pub mod Rows
pub mod SweepTrials
pub mod SweepLaws
pub mod LentStamps
