pub mod Sole
pub mod Pairwise
pub mod Numbers
pub mod Ups
pub mod Grown
pub mod Reached
