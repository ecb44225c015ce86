-- The search engine between two steps, in reading order.
pub mod Running
pub mod Keeping
pub mod Going
pub mod Formals
pub mod Steering
pub mod Entry
pub mod Entering
pub mod Sought
