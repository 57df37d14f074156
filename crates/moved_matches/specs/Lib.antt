pub use Rattle.bindings.specs.Match
pub use Rattle.substitution.specs.Substitution
pub mod Moved
pub mod Laws
