pub mod Taking
pub mod Together
pub mod StateLists
pub mod Absorbed
pub mod Shown
pub mod Passes
pub mod Merging
pub mod MergedGroups
pub mod AddedStates
pub mod GroupSteps
mod GroupPlaces
pub mod OneGroup
