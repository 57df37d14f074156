pub use Rattle.bindings.specs.Match
pub mod Roots
pub mod Found
pub mod Laws
