pub mod Cells
pub mod Orders
pub mod Refusals
pub mod Truths
pub mod Results
pub mod Texts
pub mod Numbers
