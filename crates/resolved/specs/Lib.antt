-- The resolved script, in reading order: the definition, then laws of it. A proof about an engine cites Places, Standing, Words and NameWords.
pub mod Resolved
pub mod Layout
