pub mod Laws
pub mod PlainTokens
pub mod Written
