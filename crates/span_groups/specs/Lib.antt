pub mod States
pub mod StateLists
pub mod GroupStates
pub mod MergedGroups
