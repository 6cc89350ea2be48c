-- The definitions that the contracts cite.
pub mod Ranges
pub mod Places
