pub mod Ends
pub mod FrameViews
pub mod Frames
pub mod LabelViews
pub mod Names
pub mod Threads
pub mod Writes
