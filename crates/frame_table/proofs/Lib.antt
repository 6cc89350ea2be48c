pub mod Appends
pub mod Entries
pub mod Fields
pub mod Listings
pub mod Rows
pub mod Writes
