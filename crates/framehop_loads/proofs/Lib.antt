pub mod BothSections
pub mod SectionsMade
pub mod Tabulations
