pub mod CalledMethods
pub mod TextArguments
pub mod NumberArguments
pub mod Introspecting
pub mod TextElements
pub mod PropertyCalls
pub mod PreparedMessages
