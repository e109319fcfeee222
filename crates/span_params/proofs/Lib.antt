pub mod Adding
pub mod Finding
