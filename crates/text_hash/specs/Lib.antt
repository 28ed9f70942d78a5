pub mod Words
pub mod Hashes
pub mod Powers
