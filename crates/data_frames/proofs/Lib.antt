mod Opening
mod Lengths
mod Sends
mod Announced
mod ActionsTaken
pub mod Integrity
pub mod ActionRows
pub mod DataRows
pub mod Standing
pub mod RepliedKeys
pub mod Using
