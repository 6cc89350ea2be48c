pub mod LineViews
pub mod Lines
pub mod Symbols
