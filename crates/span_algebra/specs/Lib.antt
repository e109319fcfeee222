pub mod Selecting
pub mod BlockMeaning
pub mod Sources
pub mod ColumnOrders
pub mod GroupAnswers
pub mod SameMeaning
pub mod GroupQueries
