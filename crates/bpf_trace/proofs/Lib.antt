pub mod Runs
pub mod Scratch
