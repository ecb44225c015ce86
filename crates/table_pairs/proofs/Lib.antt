-- Laws that the proofs of several functions cite.
pub mod Statements
pub mod Listed
