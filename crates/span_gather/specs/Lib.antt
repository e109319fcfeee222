pub mod Gathered
pub mod Explained
pub mod InPlace
pub mod JoinedParts
