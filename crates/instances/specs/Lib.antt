-- Every name that a statement uses as it is done is new and has one live declared instance, of the kind wanted: Statement says it,
-- Theorems proves it, Invariant is what every state of a run has.
pub mod Statement
