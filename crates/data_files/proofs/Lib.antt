-- Laws on plain lists and on the definitions, for the proofs of this crate.
pub mod ShareLaws
pub mod NameLaws
pub mod LineLaws
pub mod PatternLaws
pub mod CallLaws
