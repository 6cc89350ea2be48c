pub mod Laws
pub mod OrderNumbers
pub mod Orders
