pub mod First
pub mod Greatest
pub mod Halves
pub mod Items
pub mod Last
