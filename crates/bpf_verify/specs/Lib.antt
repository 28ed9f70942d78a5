pub mod FirstFault
pub mod Masks
pub mod Numbers
