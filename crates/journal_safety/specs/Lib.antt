pub mod NeverBack
pub mod Renewed
pub mod SentFrames
