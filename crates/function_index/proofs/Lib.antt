pub mod LastAt
pub mod Ranked
pub mod Reaches
pub mod TableEntries
