pub mod Callers
pub mod Laws
pub mod Rules
