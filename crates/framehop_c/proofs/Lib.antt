pub mod Loads
pub mod SessionValues
