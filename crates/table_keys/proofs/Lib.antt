-- Laws that the proofs of several functions cite.
pub mod Each
pub mod Keys
pub mod Ranks
