pub mod KeyLines
pub mod Listed
