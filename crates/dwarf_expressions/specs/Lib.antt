pub mod Effects
pub mod Evaluation
pub mod EvaluationViews
pub mod StackViews
pub mod Values
