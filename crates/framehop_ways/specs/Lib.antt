-- The definitions that the contracts cite.
pub mod Words
pub mod Lost
pub mod PlainWords
pub mod Accesses
pub mod Moves
pub mod Branches
pub mod Decoding
pub mod Places
pub mod Ways
pub mod FirstWay
pub mod SearchViews
pub mod Values
pub mod HeldViews
pub mod WayRules
