pub mod Whole
pub mod Replies
pub mod Asked
