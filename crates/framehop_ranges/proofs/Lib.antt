pub mod BlockLaws
pub mod ChangeLaws
pub mod PartLaws
pub mod RangeLaws
