pub mod Kept
pub mod Lengths
pub mod Suites
