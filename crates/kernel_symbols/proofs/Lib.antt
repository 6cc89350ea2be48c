pub mod FirstBytes
pub mod FirstLines
pub mod Seen
