pub mod Drafts
pub mod Lines
pub mod Asked
pub mod Slips
