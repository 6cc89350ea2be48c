pub mod Halves
pub mod Laws
