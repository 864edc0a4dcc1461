pub mod Holding
pub mod Sending
pub mod Taking
pub mod Rooms
pub mod Rows
pub mod Announcing
pub mod Actions
