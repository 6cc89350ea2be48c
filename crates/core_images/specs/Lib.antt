pub mod Images
pub mod Runs
pub mod RunViews
