pub mod Listing
pub mod Items
pub mod Records
pub mod Blocks
pub mod Whole
