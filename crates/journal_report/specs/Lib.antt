pub mod Writing
pub mod Words
pub mod Room
pub mod Counts
pub mod Since
