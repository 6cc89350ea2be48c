mod Digits
pub mod Laws
mod Members
pub mod Runs
mod Texts
