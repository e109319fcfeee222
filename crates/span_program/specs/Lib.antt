pub mod Answers
pub mod Counts
pub mod Faults
pub mod Words
