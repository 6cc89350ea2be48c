pub mod Alike
pub mod Valid
