-- The static chain, in reading order.
pub mod Records
pub mod Finding
pub mod Running
pub mod Moving
pub mod Names
