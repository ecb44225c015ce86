-- Laws that the proofs of several functions cite.
pub mod Weights
pub mod Hashing
