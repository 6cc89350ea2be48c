pub mod FileTables
pub mod FunctionLists
pub mod Laws
pub mod NoteLists
pub mod Prefixes
pub mod Tables
