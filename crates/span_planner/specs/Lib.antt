pub mod Plans
pub mod Sizes
pub mod Plannable
