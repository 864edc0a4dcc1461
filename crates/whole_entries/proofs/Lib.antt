pub mod Lined
pub mod Told
pub mod Completing
