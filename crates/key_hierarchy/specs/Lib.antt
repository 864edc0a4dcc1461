pub mod Sizes
pub mod Parts
pub mod FastTransition
pub mod Keys
pub mod Shared
