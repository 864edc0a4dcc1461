pub mod Wrong
pub mod Files
pub mod Causes
pub mod Looks
pub mod Rounds
