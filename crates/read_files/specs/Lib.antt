pub mod Parts
pub mod Said
pub mod Files
