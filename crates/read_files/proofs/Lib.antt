pub mod WordLaws
pub mod PatternLaws
pub mod NumberLaws
pub mod SaidLaws
pub mod FileLaws
