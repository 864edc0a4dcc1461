pub mod Digits
pub mod FromClap
