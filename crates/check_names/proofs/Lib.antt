pub mod Names
pub mod SameNames
pub mod KindTests
pub mod FormalLaws
pub mod HoldingLaws
pub mod Rows
pub mod Exits
