pub mod Drawing
pub mod Frames
pub mod Events
pub mod Header
pub mod Course
