pub mod Sizes
pub mod Shown
pub mod Held
pub mod Named
