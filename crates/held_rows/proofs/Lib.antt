pub mod Putting
pub mod Revoking
pub mod Leaving
pub mod Pulling
pub mod NoLooks
pub mod Changing
