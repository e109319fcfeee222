pub mod Results
pub mod Layers
pub mod Sizes
