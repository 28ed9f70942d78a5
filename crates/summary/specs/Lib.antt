pub mod Layout
pub mod Sets
pub mod ImageBytes
pub mod Shown
pub mod Parts
