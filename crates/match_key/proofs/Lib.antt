pub mod Rows
pub mod ArgNumbers
pub mod KeyEquality
pub mod ArgNames
pub mod SameSets
