pub mod Columns
pub mod Layouts
pub mod Record
