pub mod Items
pub mod Passing
