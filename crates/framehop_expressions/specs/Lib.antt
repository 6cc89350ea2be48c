pub mod Architectures
pub mod Evaluation
pub mod MachineViews
pub mod Operations
pub mod Registers
pub mod StackViews
