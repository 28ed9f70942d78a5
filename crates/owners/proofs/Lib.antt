mod QueueOfOneName
mod LeavesWhenReplaced
mod TakeoverAndClose
pub mod Lists
pub mod Distinct
pub mod Placed
pub mod HeldSlots
pub mod FreeSlots
pub mod OwnerChanges
pub mod Requested
pub mod Settled
pub mod UsedSlots
pub mod Steps
pub mod Questions
pub mod MarkedSlots
