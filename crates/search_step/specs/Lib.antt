pub mod Asked
pub mod Acted
pub mod Ready
pub mod Turning
pub mod Handed
pub mod Entries
pub mod Turns
