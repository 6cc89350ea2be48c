pub mod Entries
mod FunctionLists
