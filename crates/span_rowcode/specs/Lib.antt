pub mod Rows
pub mod Cells
pub mod Laws
pub mod Limits
