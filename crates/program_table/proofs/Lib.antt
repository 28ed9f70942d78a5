mod Places
mod Positions
mod Holdings
mod SenderNames
mod Counting
mod OfConnections
mod Kept
mod Within
mod Tying
mod Adding
mod Beginning
mod Sound
mod Removing
mod Freeing
mod Gone
pub mod OwnCounts
mod SlotNumbers
mod RuleSlots
