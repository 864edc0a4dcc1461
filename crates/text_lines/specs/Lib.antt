pub mod Texts
pub mod Cuts
pub mod Longs
pub mod Reads
