pub mod PreparedOnce
pub mod Choosing
pub mod Conflicts
