-- Slots in a ring, and searches among them.
pub mod Ring
pub mod Room
pub mod Probes
