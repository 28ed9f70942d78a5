pub mod Streams
pub mod Fronts
pub mod FaultStays
