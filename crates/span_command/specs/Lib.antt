pub mod Commands
pub mod Device
pub mod Texts
pub mod Unread
pub mod Words
pub mod Limits
