-- Which field of a script holds which name, in reading order.
pub mod NameFields
pub mod Layouts
pub mod Lengths
pub mod Standing
pub mod Inside
pub mod Naming
