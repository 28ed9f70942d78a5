pub mod TestsOf
pub mod Telling
pub mod Turned
pub mod Lent
pub mod Answered
