pub mod Subqueries
