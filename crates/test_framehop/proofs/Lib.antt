pub mod Addresses
pub mod WorkedHeader
