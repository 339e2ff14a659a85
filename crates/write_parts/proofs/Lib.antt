pub mod Runs
pub mod Pasting
pub mod Words
pub mod Digits
pub mod Signs
pub mod HexLaws
