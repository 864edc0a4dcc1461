pub mod Ccm
pub mod Ccmp
pub mod Roles
pub mod Held
pub mod Faults
