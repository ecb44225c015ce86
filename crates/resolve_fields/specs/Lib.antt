-- Words laid out as a script's fields, and what a pass over its records writes beside the resolved script.
pub mod Layout
pub mod Layouts
pub mod Walk
pub mod Parts
pub mod Taking
pub mod Noting
