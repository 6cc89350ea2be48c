pub mod NumberTests
mod Gaps
mod RuleMaps
mod Places
mod SameMaps
mod SavedRows
mod OnlyRule
mod StateParts
pub mod Onward
pub mod PointerMemory
pub mod Laws
