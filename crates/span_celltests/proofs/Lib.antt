pub mod CellEnds
pub mod CellTests
