pub mod Filters
pub mod MappingLaws
