pub mod Growth
pub mod Visible
