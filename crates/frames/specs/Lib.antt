-- The frame machine, and that it runs as the copy rule does. Frame has the definitions, Theorem the claim; between them, in order,
-- what the proof is made of. Numbered and Running have laws that the crates above this one cite.
pub mod Frame
pub mod Both
pub mod Renaming
pub mod Positions
pub mod Numbered
pub mod Running
pub mod Fine
pub mod Related
