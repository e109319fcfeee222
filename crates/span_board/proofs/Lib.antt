pub mod Owners
pub mod Steps
pub mod Meets
pub mod Stories
pub mod Opening
