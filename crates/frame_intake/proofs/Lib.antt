mod Actions
mod SealedHeaders
pub mod Silence
mod Verdicts
