pub mod Stepping
pub mod Making
pub mod Sizes
pub mod Layers
