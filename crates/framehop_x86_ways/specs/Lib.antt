-- The definitions that the contracts cite.
pub mod Places
pub mod Values
pub mod HeldViews
pub mod Ways
pub mod FirstWay
pub mod SearchViews
pub mod WayRules
