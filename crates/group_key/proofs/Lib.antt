pub mod Beside
pub mod Drawing
pub mod Keeping
pub mod Counting
pub mod Newest
pub mod Together
pub mod BothKinds
pub mod IpnTold
