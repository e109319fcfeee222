pub mod Declaring
pub mod Lasting
pub mod Tabling
