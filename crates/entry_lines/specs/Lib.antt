pub mod Lines
pub mod Entries
pub mod Room
pub mod Splitting
pub mod Words
pub mod Names
pub mod Acts
pub mod Groups
