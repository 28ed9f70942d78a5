pub mod Fronts
pub mod Histories
pub mod Counted
pub mod Refused
pub mod Adding
pub mod Entries
pub mod Views
