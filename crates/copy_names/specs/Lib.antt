-- New names, in reading order.
pub mod Owner
pub mod Search
pub mod Finding
