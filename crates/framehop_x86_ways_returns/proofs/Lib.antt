pub mod Wrapped
pub mod Words
pub mod Held
pub mod RuleReturns
