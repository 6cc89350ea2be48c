pub mod Codes
pub mod Little
pub mod LookUps
pub mod Numbers
pub mod Wanted
