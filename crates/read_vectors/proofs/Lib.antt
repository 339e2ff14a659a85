pub mod WordLaws
pub mod VectorLaws
pub mod ListLaws
