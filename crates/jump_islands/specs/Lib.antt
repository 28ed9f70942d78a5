pub mod Source
pub mod SourceItems
pub mod Draft
pub mod Numbers
pub mod PlainLength
pub mod Lowering
pub mod Tails
