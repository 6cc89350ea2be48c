pub mod VariantNames
pub mod Wraps
