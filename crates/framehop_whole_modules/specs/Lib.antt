pub mod Attempts
pub mod Laws
pub mod ModuleRows
pub mod StepMeanings
pub mod Views
