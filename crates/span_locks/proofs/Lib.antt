pub mod Held
pub mod Refusals
pub mod Replying
pub mod Restating
pub mod Refusing
