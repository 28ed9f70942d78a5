pub mod Rows
pub mod ArgNumber
pub mod Errors
pub mod Key
pub mod Kinds
