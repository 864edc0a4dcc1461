pub mod Script
pub mod Live
pub mod Forms
pub mod Headers
pub mod Sentences
pub mod Mistakes
