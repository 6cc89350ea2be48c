pub mod Error
pub mod Format
pub mod Names
pub mod Pointer
pub mod Section
