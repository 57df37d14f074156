pub mod Common
pub mod Growing
pub mod Keys
pub mod Lines
pub mod Refusing
pub mod RuleNames
pub mod Typed
