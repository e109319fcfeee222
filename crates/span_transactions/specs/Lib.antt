pub mod States
pub mod Places
pub mod Choices
pub mod Conflicts
