pub mod Bytes
pub mod Effects
pub mod Flow
pub mod Loads
pub mod Numbers
pub mod Program
pub mod Steps
pub mod Table
