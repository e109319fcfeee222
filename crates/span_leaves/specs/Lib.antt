pub mod Conditions
pub mod Ranges
pub mod Leaves
pub mod Results
pub mod Numbered
pub mod Masks
pub mod Maskable
