pub mod Signs
pub mod DigitLaws
pub mod PartLaws
pub mod ValueLaws
