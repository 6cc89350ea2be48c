pub mod Checksums
pub mod LinkViews
pub mod Links
pub mod PathViews
pub mod Paths
