pub mod Lists
pub mod FirstWays
pub mod Trails
