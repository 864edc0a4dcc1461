pub mod Chains
pub mod Joined
pub mod Halves
pub mod Iterates
pub mod Keys
pub mod Lists
pub mod Parts
pub mod Sizes
