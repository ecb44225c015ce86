-- Steps of the copy-rule machine, in reading order.
pub mod Enclosers
