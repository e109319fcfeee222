pub mod Orders
pub mod Codes
pub mod PlacesInOrder
pub mod Columns
