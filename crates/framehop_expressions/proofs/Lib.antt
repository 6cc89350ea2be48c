pub mod Numbers
pub mod Stacks
pub mod Turns
pub mod Unset
