pub mod Processes
pub mod Stacks
