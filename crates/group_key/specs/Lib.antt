pub mod Keys
pub mod Holds
pub mod Views
pub mod Replied
pub mod News
