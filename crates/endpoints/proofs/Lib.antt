pub mod Commas
pub mod Spelled
pub mod Values
