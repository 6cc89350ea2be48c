pub mod Adding
pub mod FrameTokens
pub mod Laws
pub mod Printed
pub mod Registers
