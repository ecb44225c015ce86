-- Statements done from a copied text, in reading order.
pub mod Doing
pub mod Ready
pub mod Scenes
pub mod Moved
