pub mod Blocks
pub mod Changes
pub mod Ranges
pub mod RangeTables
pub mod RangeValues
pub mod Rises
