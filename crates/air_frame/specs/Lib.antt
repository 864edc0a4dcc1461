pub mod Control
pub mod Fields
pub mod Spelled
pub mod Faults
pub mod FaultNumbers
pub mod Views
pub mod Sent
pub mod Subtypes
