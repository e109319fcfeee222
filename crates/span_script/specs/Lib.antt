pub mod Reports
pub mod Scripts
