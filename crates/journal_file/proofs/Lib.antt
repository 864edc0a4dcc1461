pub mod Counted
pub mod Longest
pub mod Passed
