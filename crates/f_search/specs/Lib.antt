-- The search of source 001, section 5, on the frame machine's stack: names by number, sought along the F-chain. In reading order; the definitions are
-- in Numbers, Passers and Search, with Examples, and a reader who wants the theorems alone reads Distinct, FirstPassed, Theorem, Enclosers and Stated.
pub mod Numbers
pub mod Passers
pub mod Search
