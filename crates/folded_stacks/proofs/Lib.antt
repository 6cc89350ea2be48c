pub mod Counting
pub mod Kept
pub mod Order
pub mod Sums
pub mod Texts
