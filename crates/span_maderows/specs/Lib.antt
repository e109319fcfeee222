pub mod Linked
pub mod Made
