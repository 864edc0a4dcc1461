pub mod KeyData
pub mod Counting
pub mod Deciding
pub mod Final
pub mod Addresses
pub mod Handshaking
pub mod Standing
pub mod Replying
mod Unchanging
pub mod Refusing
pub mod RsneAlone
pub mod Verified
pub mod Agreeing
pub mod Asking
pub mod Answered
pub mod Answering
pub mod Finishing
pub mod Retrying
pub mod Installing
pub mod Beginning
pub mod Renewing
mod KindsOf
pub mod Beside
pub mod Growing
pub mod ToldWords
mod KeysOf
pub mod ShortFte
