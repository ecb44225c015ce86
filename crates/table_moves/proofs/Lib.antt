-- Laws that the proofs cite, in this crate and above.
pub mod TakeOut
pub mod PutIn
