pub mod Places
pub mod Chains
pub mod Changes
