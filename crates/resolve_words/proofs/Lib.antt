pub mod Growth
pub mod Lookups
pub mod Names
