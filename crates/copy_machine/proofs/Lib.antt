pub mod Enclosers
pub mod Kept
pub mod Anew
pub mod Moved
pub mod Start
pub mod Together
