pub mod FilterSlots
pub mod TestLines
pub mod NearTests
