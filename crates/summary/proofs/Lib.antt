pub mod SlotBits
pub mod WordPlaces
pub mod WordLists
pub mod BodyPlaces
pub mod Assembled
mod Examples
pub mod SummaryWords
pub mod ImageShows
