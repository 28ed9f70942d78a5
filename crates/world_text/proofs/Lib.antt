pub mod Cuts
pub mod ListLines
pub mod Numbers
