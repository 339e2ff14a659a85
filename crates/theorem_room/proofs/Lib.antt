pub mod Written
pub mod Checked
pub mod Grown
pub mod Oriented
pub mod FileNames
pub mod Axes
pub mod Enough
-- How many samples are decoded, and that they are of their type: for the crates of the calls that answer samples.
pub mod SamplesSeen
