pub mod UniqueNames
