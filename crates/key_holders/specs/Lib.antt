pub mod Keys
pub mod Rows
pub mod Pulls
pub mod Listed
pub mod Cached
