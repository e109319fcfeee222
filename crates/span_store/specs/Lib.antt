pub mod Ends
pub mod KeyLists
pub mod KeyVersions
pub mod Ledgers
pub mod Reads
pub mod Stored
pub mod Versions
