pub mod Program
pub mod Looked
pub mod Ending
pub mod Linked
