pub mod Parting
pub mod Sealing
pub mod Asking
pub mod Rooming
pub mod Chaining
