-- The script check accepts exactly the encodings of trees that keep document 01's rules: Rules has the rules, Exact the theorem.
pub mod Rules
pub mod Formed
pub mod Scoped
pub mod Readers
pub mod Words
