pub mod PlaceValue
pub mod Forms
pub mod WordForms
pub mod Taken
pub mod Components
pub mod Joined
pub mod Vectors
pub mod ReadBack
