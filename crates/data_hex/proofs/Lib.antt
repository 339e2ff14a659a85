pub mod BlockLaws
pub mod DigitLaws
pub mod HighLaws
pub mod JoinLaws
pub mod LoopLaws
pub mod RunLaws
pub mod SampleLaws
