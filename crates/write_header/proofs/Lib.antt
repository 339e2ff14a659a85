pub mod TextLaws
pub mod AskedLaws
pub mod LentLaws
pub mod Filling
