pub mod CutCoordinates
pub mod Fronts
pub mod Rooms
