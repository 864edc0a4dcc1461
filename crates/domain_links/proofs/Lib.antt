pub mod Attachment
pub mod Going
pub mod OnePoll
pub mod Returned
pub mod SameNodes
pub mod Taking
pub mod Turning
pub mod Unfailed
