pub mod Bytes
pub mod Lists
pub mod Pushing
pub mod MadeRows
pub mod Hashing
pub mod Linking
