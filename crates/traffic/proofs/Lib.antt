pub mod Pairs
pub mod RowLines
pub mod Counted
