pub mod FirstRows
pub mod Copying
pub mod KeptGroups
pub mod Parting
pub mod Reductions
