pub mod Decoded
pub mod Elements
pub mod Errors
pub mod Faults
pub mod Json
pub mod Lines
pub mod Stream
