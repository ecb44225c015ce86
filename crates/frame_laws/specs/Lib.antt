-- Laws of the frame machine for the engines that run on frames, in reading order.
pub mod Parts
pub mod Finding
pub mod Actions
pub mod Innermost
pub mod Cases
pub mod Tables
pub mod Formed
pub mod Bounds
pub mod BoundedFrames
pub mod Names
pub mod Likeness
pub mod Continuing
pub mod Storing
pub mod BoundedSteps
pub mod BoundedUses
pub mod Chains
