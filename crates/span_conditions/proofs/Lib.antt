mod Compared
mod LinkedNumbers
pub mod PairColumns
