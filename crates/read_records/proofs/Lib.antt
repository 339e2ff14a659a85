pub mod Filling
pub mod ListLaws
pub mod ValueLaws
