pub mod Stopping
pub mod CallStops
