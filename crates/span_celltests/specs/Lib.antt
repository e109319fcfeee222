pub mod Ends
pub mod CellTests
