pub mod Starting
pub mod Declarations
pub mod Statements
pub mod Own
