pub mod Promised
pub mod Wholes
pub mod Runs
pub mod Viewed
pub mod Explaining
