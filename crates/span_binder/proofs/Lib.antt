pub mod Giving
pub mod Trees
pub mod Adding
pub mod ByParts
pub mod Understanding
pub mod Uniqueness
pub mod Faults
pub mod QueryFaults
