pub mod Columns
pub mod Steps
pub mod Taken
pub mod Drafts
pub mod Passed
pub mod Ordered
pub mod RuleGoals
