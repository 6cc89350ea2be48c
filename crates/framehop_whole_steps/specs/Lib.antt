pub mod Attempts
pub mod Carrying
pub mod FoundRows
pub mod Known
pub mod Laws
pub mod Registers
pub mod Rules
pub mod Views
