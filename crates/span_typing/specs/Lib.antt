pub mod Scopes
pub mod Typing
