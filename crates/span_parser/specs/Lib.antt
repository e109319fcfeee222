pub mod Queries
pub mod QueryTexts
