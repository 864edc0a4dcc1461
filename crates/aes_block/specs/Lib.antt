pub mod Octets
pub mod Field
pub mod State
pub mod Cipher
pub mod Words
