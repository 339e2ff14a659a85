pub mod Arrays
pub mod Halves
pub mod Stores
pub mod PackedLaws
pub mod WidthLaws
