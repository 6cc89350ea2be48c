pub mod Boxes
pub mod Escapes
pub mod Frames
pub mod Opened
pub mod Pictures
pub mod Shares
pub mod Stacks
pub mod Sums
