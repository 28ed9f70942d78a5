pub mod AnyOf
pub mod NamesLeft
pub mod SaidWords
pub mod WordTable
pub mod RulesCounted
pub mod Takes
pub mod Expressions
