pub mod Limits
pub mod Notes
