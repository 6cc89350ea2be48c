pub mod ChainLaws
pub mod HeaderLaws
pub mod WordLists
