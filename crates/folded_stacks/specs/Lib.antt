pub mod CountLaws
pub mod FrameNames
pub mod LineViews
pub mod Lines
pub mod Names
pub mod StackLists
