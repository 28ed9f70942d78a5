pub mod Printable
pub mod Escaped
pub mod Errors
