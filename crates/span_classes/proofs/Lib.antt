pub mod Keys
pub mod Firsts
pub mod Merging
pub mod ByRows
pub mod Taking
pub mod Together
pub mod InRanges
