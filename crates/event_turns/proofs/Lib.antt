mod Sorting
pub mod Happening
