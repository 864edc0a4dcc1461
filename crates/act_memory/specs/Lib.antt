pub mod Waiting
pub mod Templates
pub mod Rooms
