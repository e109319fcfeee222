pub mod Batches
pub mod From
pub mod Fronts
pub mod Runs
pub mod Walking
