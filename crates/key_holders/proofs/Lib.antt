pub mod Searches
pub mod Lives
pub mod Ending
pub mod Listing
pub mod KeysOfRows
pub mod Holding
pub mod Caching
