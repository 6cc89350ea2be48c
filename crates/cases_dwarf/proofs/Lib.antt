pub mod WorkedEntries
