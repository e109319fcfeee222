pub mod CellTexts
pub mod Choices
pub mod IntCells
pub mod Total
pub mod Comparisons
pub mod Lists
pub mod Results
pub mod Numbers
