pub mod Columns
pub mod Checking
pub mod InOrder
pub mod NamedBatches
pub mod RootKeys
