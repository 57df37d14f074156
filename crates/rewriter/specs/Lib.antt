pub use Rattle.ir_core.specs.Checks
pub use Rattle.ir_core.specs.Refines
pub use Rattle.bindings.specs.Match
pub use Rattle.substitution.specs.Rewritten
pub mod Put
pub mod Applied
pub mod Laws
pub mod Ready
