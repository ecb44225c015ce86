pub mod Signs
pub mod Kept
