-- The definitions that the contracts cite.
pub mod Bits
pub mod Prefixes
pub mod Opcodes
pub mod OpcodeMaps
pub mod Operands
pub mod ModRm
pub mod Layouts
pub mod Numbers
pub mod Registers
pub mod Fields
pub mod Addresses
pub mod WrittenMaps
pub mod WrittenOpcodes
pub mod Written
pub mod Effects
pub mod Instructions
pub mod Beginnings
