pub mod Lengths
pub mod Places
pub mod Standing
pub mod NameWords
pub mod Words
pub mod Examples
