pub mod Parts
pub mod Components
