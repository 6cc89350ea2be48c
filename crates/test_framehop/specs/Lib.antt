pub mod Callers
pub mod Tables
pub mod WorkedHeader
