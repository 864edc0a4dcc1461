pub mod Bodies
pub mod Refusals
