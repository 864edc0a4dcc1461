pub mod Hexed
pub mod Numbered
pub mod Finding
