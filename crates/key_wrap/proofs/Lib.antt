pub mod StepLemmas
pub mod UniqueLemmas
pub mod OutLemmas
