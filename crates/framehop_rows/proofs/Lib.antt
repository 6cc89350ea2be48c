pub mod DirectRows
pub mod DirectRowsAarch64
pub mod Evaluations
pub mod RowsOfRules
pub mod RowsOfRulesAarch64
pub mod RuleParts
pub mod TakenParts
