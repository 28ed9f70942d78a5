pub mod ImageWords
pub mod Lines
pub mod Traces
pub mod Views
