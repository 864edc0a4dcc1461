pub mod NodeOrder
pub mod Sends
pub mod Telling
pub mod Attached
pub mod Turns
