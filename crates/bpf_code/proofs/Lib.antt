pub mod Groups
pub mod OneTable
