pub mod OperationLists
