pub mod Pieces
pub mod Answers
pub mod Marks
pub mod Marking
pub mod Joining
pub mod Reach
pub mod Errors
