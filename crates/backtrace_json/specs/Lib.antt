pub mod Documents
pub mod Forms
pub mod Frames
pub mod Headings
pub mod Parts
pub mod Threads
pub mod Values
pub mod Writers
