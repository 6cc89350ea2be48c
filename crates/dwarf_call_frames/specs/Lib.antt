pub mod Header
pub mod HeaderTable
pub mod Halving
pub mod HeaderEntries
pub mod EhFrameCies
pub mod Truthful
pub mod Linked
