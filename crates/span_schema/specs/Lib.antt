pub mod Tables
pub mod Rules
pub mod Lineages
pub mod Layouts
pub mod Schemas
pub mod Numbers
pub mod Fitting
pub mod Limits
