pub mod Faults
pub mod Codes
pub mod Fronts
pub mod Joined
pub mod Reread
pub mod Seals
pub mod Wrapped
pub mod Written
