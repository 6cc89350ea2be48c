mod Texts
mod Walks
pub mod OneModule
pub mod RoadLines
pub mod Runs
pub mod SectionLists
pub mod StepLines
pub mod StillCallback
