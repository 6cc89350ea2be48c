pub mod ByParts
pub mod Covered
pub mod IndexAttempts
pub mod Kept
pub mod RuleTables
pub mod Tabulations
