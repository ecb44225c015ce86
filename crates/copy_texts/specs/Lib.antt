-- The copying area, in reading order: the definitions, then laws of them.
pub mod Texts
pub mod Copying
pub mod Readings
pub mod Renewing
pub mod Stacks
pub mod Entering
pub mod Noting
pub mod Aiming
pub mod Looking
