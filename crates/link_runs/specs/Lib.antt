pub mod Told
pub mod Outer
pub mod Endings
pub mod Linked
pub mod Stepping
pub mod Standing
pub mod Reading
