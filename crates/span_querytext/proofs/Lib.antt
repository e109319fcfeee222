pub mod Sublevels
