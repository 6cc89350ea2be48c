pub mod Changes
pub mod Processes
pub mod Mapped
