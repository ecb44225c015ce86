-- Laws that the proofs of several functions cite, here and above.
pub mod Numbers
pub mod Spots
pub mod Words
