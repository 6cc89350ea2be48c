-- The definitions that the contracts cite.
pub mod Callers
pub mod FirstRules
pub mod FirstRulesAarch64
pub mod Ways
pub mod WaysAarch64
