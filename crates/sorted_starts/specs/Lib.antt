pub mod Halves
pub mod Starts
