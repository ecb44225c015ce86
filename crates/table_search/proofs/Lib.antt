-- Laws that the proofs of several functions cite, in this crate and above.
pub mod Signed
pub mod Pairs
pub mod Placed
