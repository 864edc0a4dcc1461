pub mod Elements
pub mod FramesBetween
pub mod GroupKdes
pub mod Growing
pub mod MobileData
pub mod Secured
