pub mod Replied
pub mod Between
pub mod Mobile
pub mod KeyData
pub mod Second
