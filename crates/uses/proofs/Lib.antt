mod Carrying
mod Replaying
mod Sharing
pub mod Fitting
