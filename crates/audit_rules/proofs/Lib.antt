mod Places
pub mod Dues
pub mod Low
pub mod Held
pub mod Going
pub mod First
mod Files
mod Told
mod Parts
mod Failed
pub mod Form
pub mod Grouped
pub mod Ended
pub mod Judged
pub mod Started
