mod Octets
mod Blocks
pub mod Sealing
pub mod Bodies
