pub mod Bytes
pub mod Rows
pub mod Index
pub mod Pages
pub mod Functions
pub mod Increasing
pub mod CountedLookups
