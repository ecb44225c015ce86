-- What the call's proofs share.
pub mod Pieces
