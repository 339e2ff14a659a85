pub mod Pieces
pub mod Entries
pub mod Signs
pub mod Joining
pub mod Counting
