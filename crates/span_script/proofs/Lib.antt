pub mod Doing
pub mod Ends
pub mod Runs
