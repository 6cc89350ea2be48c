pub mod Answers
pub mod Execution
pub mod PartsRows
pub mod PartsStates
pub mod RowParts
pub mod SimpleRows
