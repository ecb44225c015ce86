-- The definitions of document 01, with requests 1 to 3 of document 02, in reading order.
pub mod Numbers
pub mod Basics
pub mod Text
pub mod Encoding
pub mod Structure
pub mod Scope
pub mod Check
pub mod Faults
pub mod Table
pub mod Groups
pub mod Copy
pub mod Machine
pub mod Sheet
pub mod Call
pub mod Evaluation
pub mod Samples
