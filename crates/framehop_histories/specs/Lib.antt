pub mod Alike
pub mod Commands
pub mod CommandViews
pub mod Performs
pub mod Replies
pub mod StateAfter
