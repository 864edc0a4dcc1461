pub mod Tokens
pub mod Names
pub mod Grammar
pub mod Kinds
pub mod Texts
pub mod Causes
pub mod Slips
