pub mod SealedFields
pub mod ActionFields
pub mod Views
pub mod Judging
