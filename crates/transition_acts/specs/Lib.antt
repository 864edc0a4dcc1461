pub mod Sizes
pub mod Seals
pub mod Looks
pub mod Rooms
