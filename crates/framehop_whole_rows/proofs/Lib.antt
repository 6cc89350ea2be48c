pub mod AgreeingCallers
pub mod CallerRegisters
