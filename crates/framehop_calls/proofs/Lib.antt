pub mod Calls
pub mod Moves
pub mod Notes
pub mod Passing
pub mod RunWalks
pub mod RegisterLists
pub mod StillCallback
