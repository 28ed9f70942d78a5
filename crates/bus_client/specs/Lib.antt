pub mod Talk
pub mod Descriptors
pub mod Errors
