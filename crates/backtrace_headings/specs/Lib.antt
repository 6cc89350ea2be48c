pub mod Headings
pub mod HeadingViews
pub mod Signals
