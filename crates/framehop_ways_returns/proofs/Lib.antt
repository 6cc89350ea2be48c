pub mod Wrapped
pub mod Held
pub mod RuleReturns
