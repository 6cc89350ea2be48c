pub mod Lists
pub mod FirstWays
pub mod Trails
pub mod HeldValues
pub mod Reading
