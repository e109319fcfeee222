pub mod RowReads
pub mod CellSkips
