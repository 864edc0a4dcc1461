pub mod Roaming
pub mod EitherAnswer
pub mod ChangedKey
pub mod SecondChange
pub mod UsedKeys
pub mod Protection
pub mod ProtectedRoaming
