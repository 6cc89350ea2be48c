pub mod Sections
pub mod ExplicitTable
pub mod Chosen
pub mod ChosenViews
pub mod LoadErrors
pub mod PeTable
