-- The number of the name in each field of a script, in reading order.
pub mod NumberFields
pub mod Examples
pub mod Layouts
pub mod Around
pub mod Numbering
pub mod Standing
