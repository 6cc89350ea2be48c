pub mod ByteOrder
pub mod RunTimeEndian
pub mod Offset
pub mod Answers
