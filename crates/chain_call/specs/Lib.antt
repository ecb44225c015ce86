-- The static-chain engine's call.
pub mod Calls
