pub mod Stream
pub mod Errors
