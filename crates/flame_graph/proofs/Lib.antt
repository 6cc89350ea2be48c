pub mod LentNames
pub mod Pushing
pub mod Ranges
pub mod Runs
pub mod Steps
pub mod Widths
