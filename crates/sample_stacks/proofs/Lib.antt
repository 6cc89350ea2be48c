pub mod Addresses
pub mod Calls
pub mod Found
pub mod FrameLaws
pub mod Merging
pub mod MoveLaws
pub mod StillCallback
