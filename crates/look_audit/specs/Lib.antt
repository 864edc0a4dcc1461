pub mod Own
pub mod Asked
