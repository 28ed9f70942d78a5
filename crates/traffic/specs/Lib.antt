pub mod Roles
pub mod OpenCalls
pub mod Times
pub mod Methods
pub mod Columns
pub mod Reports
pub mod Senders
