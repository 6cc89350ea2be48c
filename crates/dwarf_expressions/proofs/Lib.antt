pub mod Behind
pub mod Machines
pub mod Requests
pub mod Runs
pub mod Stacks
pub mod Words
