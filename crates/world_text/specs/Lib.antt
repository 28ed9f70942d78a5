pub mod Errors
pub mod Words
pub mod Events
pub mod Lines
pub mod Lists
pub mod Reads
pub mod Answers
