-- Laws that the proofs of several functions cite, in this crate and above.
pub mod Naturals
pub mod Zeros
pub mod Reading
