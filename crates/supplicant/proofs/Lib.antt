pub mod Telling
pub mod Standing
pub mod Replying
pub mod TakenM1
pub mod Keyings
pub mod KeyDataRead
pub mod G1Read
pub mod Sessions
pub mod Remembering
pub mod GroupIds
pub mod GroupSessions
pub mod KeysGiven
pub mod TakenM3
pub mod TakenG1
pub mod Opening
pub mod OwnKeys
pub mod Basing
mod KeysOf
