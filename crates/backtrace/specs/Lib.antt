pub mod ArgumentViews
pub mod Arguments
pub mod Statuses
pub mod Unread
