pub mod Counters
pub mod Crossing
pub mod Going
pub mod Held
pub mod Items
pub mod Passphrases
pub mod Transfers
