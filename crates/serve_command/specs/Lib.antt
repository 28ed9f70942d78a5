pub mod Status
pub mod Faults
pub mod Admitting
