pub mod Whole
pub mod Half
