-- What a statement of the resolved script does to an engine's arrays, in reading order.
pub mod Effects
pub mod Acting
