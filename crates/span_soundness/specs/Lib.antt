pub mod Types
pub mod Bindings
pub mod WellTyped
pub mod Results
pub mod Laws
