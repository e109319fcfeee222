pub mod KeptGroups
pub mod FirstRows
pub mod Parts
pub mod Reductions
