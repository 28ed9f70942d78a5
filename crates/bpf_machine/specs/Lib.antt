pub mod Memory
pub mod Performs
pub mod Rows
pub mod Chains
pub mod Tests
pub mod Runs
pub mod AtOnce
