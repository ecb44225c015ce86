-- Theorems about the copy-rule machine of document 01, in reading order.
pub mod Running
pub mod Moves
pub mod Account
pub mod Reasons
pub mod Steps
pub mod Onward
pub mod Stops
pub mod Tables
pub mod Bounds
pub mod Names
pub mod Accepted
pub mod Fresh
pub mod SheetWords
pub mod Designators
pub mod Admission
pub mod Calls
pub mod Causes
