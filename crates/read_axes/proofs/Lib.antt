pub mod CodeLaws
pub mod StringLaws
