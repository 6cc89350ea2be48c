pub mod Places
pub mod Populating
pub mod Tables
pub mod Following
pub mod AddressLists
