pub mod Histories
pub mod Jobs
pub mod Answers
pub mod OpenJobs
pub mod WorldState
pub mod IsWorld
pub mod Steps
