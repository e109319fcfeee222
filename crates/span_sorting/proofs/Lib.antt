pub mod Order
pub mod Sorting
pub mod RowOrder
mod FirstRows
pub mod Limits
pub mod Codes
pub mod CodedRows
pub mod TakenColumns
pub mod Placing
mod InTurn
pub mod FirstOfParts
