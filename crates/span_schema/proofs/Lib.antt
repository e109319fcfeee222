pub mod Paths
pub mod Children
pub mod Judged
pub mod Prefixes
pub mod Numbered
pub mod Names
