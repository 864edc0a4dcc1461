pub mod Packets
pub mod Own
pub mod Records
