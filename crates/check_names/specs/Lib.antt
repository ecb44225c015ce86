pub mod Naming
pub mod Holding
