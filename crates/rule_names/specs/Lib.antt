pub mod RuleNames
pub mod Steps
