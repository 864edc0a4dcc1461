pub mod Bip
pub mod Held
pub mod Faults
