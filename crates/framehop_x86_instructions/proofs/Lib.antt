pub mod Beginnings
pub mod OpcodeTables
