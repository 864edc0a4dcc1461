pub mod Texts
pub mod Digits
pub mod Journals
pub mod Taken
pub mod Putting
pub mod Waiting
pub mod News
