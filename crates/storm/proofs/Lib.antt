pub mod Seeing
pub mod Octets
pub mod Listed
