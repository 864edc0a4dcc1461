pub mod File
pub mod Files
pub mod Counting
pub mod Waiting
