-- What the proofs of this crate cite of definitions, of other crates and of the libraries, passed on from one place.
pub use Rattle.std.proofs.Common.{subst, sym}
pub use Rattle.rule_core.specs.declared.rule.Rule.{Rule}
pub use Rattle.rule_typing.specs.Classes.{IsClassified}
