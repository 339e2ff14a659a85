pub mod ShortLaws
pub mod TokenLaws
pub mod WalkLaws
