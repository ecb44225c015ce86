-- What the engines' functions for statements have in common, in reading order.
pub mod Words
pub mod Moved
pub mod Pieces
pub mod Doing
pub mod Scenes
pub mod Numbers
pub mod Answers
pub mod Beginning
