pub use Rattle.rule_core.specs.Checks
pub use Rattle.rule_core.specs.Terms
pub use Rattle.rule_core.specs.Typing
pub use Rattle.rule_core.specs.Valid
pub mod Numbers
pub mod Readiness
