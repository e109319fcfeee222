pub mod Parameters
pub mod Laws
