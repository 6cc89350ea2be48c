pub mod SectionNames
pub mod Bases
pub mod FileSections
pub mod SectionViews
