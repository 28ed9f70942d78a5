pub mod Keys
pub mod Quoting
pub mod RuleTexts
