pub mod Entries
pub mod RowWidths
pub mod ReadTables
mod Numbers
pub mod PlacedRows
pub mod Placing
pub mod TargetRows
pub mod KeyReads
pub mod NumberPlaces
pub mod AddedCells
mod NullRows
