pub mod Exact
pub mod Written
pub mod SentFrames
pub mod Shapes
pub mod ByNumber
pub mod Lengths
