pub mod Looks
pub mod Joins
pub mod Serves
pub mod Replays
