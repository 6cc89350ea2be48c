pub mod Files
pub mod Order
