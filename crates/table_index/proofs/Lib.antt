-- Laws that the proofs of several functions cite.
pub mod Homes
pub mod Searches
