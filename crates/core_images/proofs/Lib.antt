pub mod First
pub mod Known
pub mod KnownRuns
