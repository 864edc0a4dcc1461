pub mod Believed
pub mod Counters
pub mod Events
pub mod Free
pub mod Headers
pub mod Pushed
pub mod Starts
pub mod States
