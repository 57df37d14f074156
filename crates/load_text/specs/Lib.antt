pub mod RuleText
pub mod Laws
pub mod Load
pub mod Loading
