pub mod Entries
pub mod Functions
pub mod Indexes
pub mod TableViews
pub mod Tables
