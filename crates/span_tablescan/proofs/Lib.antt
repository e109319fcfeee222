pub mod ScannedRows
pub mod ShortKeys
