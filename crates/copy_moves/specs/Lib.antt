-- The copying engine between two steps, in reading order.
pub mod Running
pub mod Settled
pub mod Begun
pub mod Looked
pub mod Going
pub mod Renamed
pub mod Copies
