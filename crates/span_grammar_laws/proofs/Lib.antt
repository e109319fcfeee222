pub mod Alike
pub mod Judged
pub mod Languages
pub mod Parts
pub mod Roots
pub mod Tagging
pub mod Verdicts
pub mod Wrong
