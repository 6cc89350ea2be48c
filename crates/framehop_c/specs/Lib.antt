pub mod Caches
pub mod Files
pub mod Held
pub mod Sessions
pub mod Steps
pub mod Walks
