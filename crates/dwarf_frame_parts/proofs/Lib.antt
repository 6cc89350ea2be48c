pub mod NoneLeft
pub mod PartsLaws
pub mod PartsOfRows
pub mod PartsSteps
pub mod RowsLeft
