pub mod Known
pub mod Rule
pub mod Places
