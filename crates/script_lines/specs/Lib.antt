pub mod Script
pub mod Due
pub mod Refusals
pub mod Headers
pub mod Sentences
