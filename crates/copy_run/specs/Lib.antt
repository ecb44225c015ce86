-- The copying engine, in reading order.
pub mod Agreeing
pub mod Depth
pub mod Words
pub mod Names
pub mod Statements
pub mod Calling
pub mod Meaning
pub mod Here
pub mod Within
pub mod Entries
pub mod Entering
pub mod Beginning
pub mod Starting
pub mod LookedUp
pub mod Turning
pub mod Turns
pub mod Ending
