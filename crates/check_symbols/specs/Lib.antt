pub mod Entries
pub mod Chains
