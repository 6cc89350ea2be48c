pub mod Sums
pub mod Codes
