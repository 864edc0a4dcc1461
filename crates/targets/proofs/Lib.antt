pub mod Passing
pub mod Beginning
pub mod Choosing
pub mod Authing
pub mod Reassociating
pub mod Taking
pub mod Others
pub mod Growing
