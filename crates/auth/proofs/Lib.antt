pub mod LineEnds
pub mod Talks
pub mod TakenLines
