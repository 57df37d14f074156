pub use Rattle.bindings.specs.Facts
pub use Rattle.bindings.specs.Match
pub mod Laws
pub mod Slots
