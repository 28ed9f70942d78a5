pub mod HistoryRule
pub mod Steps
pub mod Publishing
pub mod Publication
pub mod ErrorName
