pub mod Runs
pub mod Stepping
pub mod Endings
mod Arriving
mod Members
