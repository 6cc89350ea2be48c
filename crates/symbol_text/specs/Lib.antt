pub mod Numbers
pub mod Texts
pub mod Modifiers
pub mod Joining
