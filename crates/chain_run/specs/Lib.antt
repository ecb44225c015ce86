-- The static-chain engine, in reading order.
pub mod Running
pub mod Ending
pub mod Listed
