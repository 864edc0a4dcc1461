pub mod Knows
pub mod Looks
