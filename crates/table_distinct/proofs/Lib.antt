-- Laws that the proofs of several functions cite.
pub mod Numbers
pub mod Words
pub mod Filling
pub mod Once
